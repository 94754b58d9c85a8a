-- What the answer of a scan says of the scan.
use mathlib.Core.Path.{◌≡◌, refl, ap}
use Prim.Native.Nat.{ℕ}
use native.Mathlib.Omega.{arith}
use Rattle.meaning.specs.StampGrammar.{Ruled, reads, halts, DateTime}
use Rattle.std.specs.Prelude.{Result, Ok, Err}
use Rattle.std.specs.Result.{MatchResult, IsErrAnd}
use Rattle.stamps.specs.declared.grammar.Halted.{Halted}
use Rattle.stamps.specs.Found.{parts_of, date_time_of, scanned_by}
use Rattle.stamps.specs.declared.grammar.Parts.{Parts}

-- what a scan stands for

abbrev place_in : Result Parts Halted → ℕ
place_in (Ok p) = 0
place_in (Err h) = h.place

pub scan-halted : (x : Ruled DateTime) {h : Halted} → scanned_by x ≡ Err h → x ≡ halts h.place
scan-halted (reads t at) e = absurd (let z : ◌≡◌ {A = ℕ} 0 1 = cc in omega arith)
scan-halted (halts at) e = ap halts (ap place_in e)

pub scan-read : (x : Ruled DateTime) {p : Parts} → scanned_by x ≡ Ok p → (end : ℕ) × (x ≡ reads (date_time_of p) end)
scan-read (reads t at) {p} e =
    let same : parts_of t ≡ p = cc in
    (at, ap (λ (q : Parts). reads (date_time_of q) at) same)
scan-read (halts at) e = absurd (let z : ◌≡◌ {A = ℕ} 0 1 = cc in omega arith)

-- an error that was turned into another
pub turned-error : {T E D : Type 0} (r : Result T E) (m : Result T D) (Q : E → D → Type 0) {d : D}
    → MatchResult r (λ x. m ≡ Ok x) (λ e. IsErrAnd m (Q e)) → m ≡ Err d → (e : E) × (r ≡ Err e) × Q e d
turned-error (Ok x) m Q h is = absurd (let z : ◌≡◌ {A = ℕ} 0 1 = cc in omega arith)
turned-error (Err e) m Q h is = (e, refl, rw is at h)
