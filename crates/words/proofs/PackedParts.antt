-- What the parts of an accepted pattern have, as far as their words ask for it: few bytes, all of them below 128.
use Rattle.std.specs.Prelude.{Ok}
use mathlib.Core.Bool.{true}
use mathlib.Core.List.{List, [], ◌∷◌, ◌++◌}
use mathlib.Core.Path.{◌≡◌, refl}
use Prim.Native.Nat.{ℕ, zero, suc, ◌≤◌, ◌<◌}
use native.Mathlib.Omega.{arith}
use lib.Dec.{eqb}
use lib.ListN.{length, replicate}
use Rattle.meaning.specs.Answers.{within, pattern_check}
use Rattle.meaning.specs.Bytes.{quote}
use Rattle.meaning.specs.Mending.{escaped_bytes, part_bytes}
use Rattle.meaning.specs.Splitting.{Content, run, quotes, quoted, unclosed, contents, length_of, inside_length}
use Rattle.laws.proofs.Ascii.{is_ascii, Ascii}
use Rattle.laws.proofs.Checks.{within-is, pattern-fine}
use Rattle.laws.proofs.PartBytes.{joined, parts-joined}
use Rattle.laws.proofs.PartsApart.{Held, Well, parts-stand-well}
use Rattle.laws.proofs.Splitting.{total, parts-fill}
use Rattle.laws.proofs.Tests.{by-test, both_true, both-are, every, every-weaker}
use Rattle.words.proofs.PartWords.{Packs}
use borrow.Author.Tests.{eqb-true, le-leb}

abbrev pub AllPack : List Content → Type 0
AllPack [] = Unit
AllPack (c ∷ cs) = Packs c × AllPack cs

-- an inside takes up its length at least
pub inside-length : (s : List ℕ) → length s ≤ inside_length s
inside-length [] = omega arith
inside-length (b ∷ s) = by-test (eqb b quote) (λ e. rw e (omega (arith, inside-length s))) (λ e. rw e (omega (arith, inside-length s)))

ascii-apart : (s t : List ℕ) → Ascii (s ++ t) → Ascii s × Ascii t
unfolding every
ascii-apart [] t h = (refl, h)
ascii-apart (b ∷ s) t h =
    let e = both_true (is_ascii b) (every is_ascii (s ++ t)) h in
    let r = ascii-apart s t e.1 in
    (both-are (is_ascii b) (every is_ascii s) e.0 r.0, r.1)

escaped-ascii : (s : List ℕ) → Ascii (escaped_bytes s) → Ascii s
unfolding escaped_bytes every
escaped-ascii [] h = refl
escaped-ascii (b ∷ s) h =
    by-test (eqb b quote)
    (λ e. both-are (is_ascii b) (every is_ascii s) (rw (eqb-true b quote e)) (escaped-ascii s (rw e at h)))
    (λ e.
    let t = both_true (is_ascii b) (every is_ascii (escaped_bytes s)) (rw e at h) in
    both-are (is_ascii b) (every is_ascii s) t.0 (escaped-ascii s t.1))

run_small : (b n : ℕ) → 1 ≤ n → Ascii (replicate n b) → b < 128
unfolding every
run_small b zero h k = absurd (omega arith)
run_small b (suc n) h k = omega (arith, (within-is 0 127 b (both_true (is_ascii b) (every is_ascii (replicate n b)) k).0).1)

part-packs : (c : Content) → Held c → length_of c ≤ 256 → Ascii (part_bytes c) → Packs c
unfolding length_of part_bytes every
part-packs (run b n) h few k = (run_small b n h.0 k, h.0, few)
part-packs (quotes n) h few k = (h, omega arith)
part-packs (quoted s) h few k = (escaped-ascii s (ascii-apart (escaped_bytes s) (quote ∷ []) k).0, omega (arith, inside-length s))
part-packs (unclosed s) h few k = (escaped-ascii s k, omega (arith, inside-length s))

parts-pack : (cs : List Content) → Well cs → total cs ≤ 256 → Ascii (joined cs) → AllPack cs
unfolding total joined
parts-pack [] h few k = tt
parts-pack (c ∷ cs) h few k =
    let t = ascii-apart (part_bytes c) (joined cs) k in
    (part-packs c h.0 (omega arith) t.0, parts-pack cs h.2 (omega arith) t.1)

ascii-weaker : (b : ℕ) → within 1 127 b ≡ true → is_ascii b ≡ true
ascii-weaker b h = let w = within-is 1 127 b h in rw (le-leb 0 b (omega arith), le-leb b 127 w.1)

pub pattern-packs : (p : List ℕ) → pattern_check p ≡ Ok tt → AllPack (contents p)
pattern-packs p h =
    let fine = pattern-fine p h in
    parts-pack (contents p) (parts-stand-well p) (omega (arith, parts-fill p, fine.short))
    (rw (parts-joined p) (every-weaker (within 1 127) is_ascii ascii-weaker p fine.bytes))
