-- Laws of the inside of a quoted part, for a walk over its bytes, and of what an unclosed part loses.
use mathlib.Core.Bool.{false}
use mathlib.Core.List.{List, [], ◌∷◌}
use mathlib.Core.Path.{◌≡◌, refl, sym, ap, ◌∙◌}
use Prim.Native.Nat.{ℕ, suc, ◌+◌, ◌-◌, ◌≤◌, ◌<◌}
use native.Mathlib.Omega.{arith}
use lib.Dec.{eqb}
use lib.ListN.{length, get_or, take, drop, drop_of_length-le}
use lib.Seq.{drop-drop}
use borrow.Author.Tests.{eqb-false}
use Rattle.laws.proofs.Elements.{by-elements}
use Rattle.laws.proofs.Tests.{by-test}
use Rattle.meaning.specs.Bytes.{when, quote}
use Rattle.meaning.specs.Writing.{ends_in_quote}
use Rattle.pattern.specs.First.{inside_size, unescaped}
use Rattle.pattern.proofs.parts.First.{unescaped-byte, size-byte, size-escaped, size-single}
use Rattle.pattern.proofs.parts.Scans.{from-here}
use Rattle.pattern.specs.Next.{Lost}

unescaped-first : (a : ℕ) (s : List ℕ) → unescaped (a ∷ s) ≡ a ∷ unescaped (drop (when (eqb a quote) 1 0) s)
unfolding unescaped
unescaped-first a [] = by-test (eqb a quote) (λ e. rw e) (λ e. rw e)
unescaped-first a (b ∷ s) = by-test (eqb a quote) (λ e. rw e) (λ e. rw e)

-- a turn of a walk over the bytes of an inside, where a quote takes two, its end, and how many bytes there are at most
pub unescaped-turn : (s : List ℕ) (i : ℕ) → i < length s
    → unescaped (drop i s) ≡ get_or s i 0 ∷ unescaped (drop (i + when (eqb (get_or s i 0) quote) 2 1) s)
unescaped-turn s i h =
    let k : (i + 1) + when (eqb (get_or s i 0) quote) 1 0 ≡ i + when (eqb (get_or s i 0) quote) 2 1 =
    by-test (eqb (get_or s i 0) quote) (λ e. rw e (omega arith)) (λ e. rw e (omega arith)) in
    rw (from-here s i h, unescaped-first (get_or s i 0) (drop (i + 1) s), drop-drop, k)

pub unescaped-done : (s : List ℕ) (i : ℕ) → length s ≤ i → unescaped (drop i s) ≡ []
unfolding unescaped
unescaped-done s i h = rw (drop_of_length-le s h)

pub unescaped-fits : (s : List ℕ) → length (unescaped s) ≤ length s
unfolding unescaped
unescaped-fits [] = omega arith
unescaped-fits (a ∷ []) = omega arith
unescaped-fits (a ∷ b ∷ s) =
    by-test (eqb a quote) (λ e. rw e (omega (arith, unescaped-fits s))) (λ e. rw e (omega (arith, unescaped-fits (b ∷ s))))

-- a byte in front changes neither the last one nor what is lost

ends-behind : (b : ℕ) (w : List ℕ) → 0 < length w → ends_in_quote (b ∷ w) ≡ ends_in_quote w
unfolding ends_in_quote
ends-behind b [] h = absurd (omega arith)
ends-behind b (a ∷ w) h = refl

last-behind : (b : ℕ) (w : List ℕ) → 0 < length w → get_or (b ∷ w) (length (b ∷ w) - 1) 0 ≡ get_or w (length w - 1) 0
last-behind b w h = let k : length (b ∷ w) - 1 ≡ suc (length w - 1) = omega arith in rw k

take_behind : (k : ℕ) (b : ℕ) (w : List ℕ) → k ≤ length w → take (length (b ∷ w) - k) (b ∷ w) ≡ b ∷ take (length w - k) w
take_behind k b w h = let e : length (b ∷ w) - k ≡ suc (length w - k) = omega arith in rw e

unescaped-some : (s : List ℕ) → 0 < length s → 0 < length (unescaped s)
unescaped-some [] h = absurd (omega arith)
unescaped-some (a ∷ s) h = rw (unescaped-first a s) (omega arith)

lost-byte : (b : ℕ) (s : List ℕ) → eqb b quote ≡ false → 0 < length s → Lost s → Lost (b ∷ s)
lost-byte b s e h l =
    let k = unescaped-some s h in
    let last = last-behind b s h in
    record {
      told = rw (unescaped-byte b s e, last) (ends-behind b (unescaped s) k ∙ l.told);
      two = λ q. omega arith;
      rest =
          λ q.
          let d = l.two (sym last ∙ q) in
          rw (unescaped-byte b s e, take_behind 1 b (unescaped s) k, take_behind 2 b s d, unescaped-byte b (take (length s - 2) s) e)
          (ap (λ (t : List ℕ). b ∷ t) (l.rest (sym last ∙ q)));
    }

lost-escaped : (s : List ℕ) → 0 < length s → Lost s → Lost (quote ∷ quote ∷ s)
unfolding unescaped
lost-escaped s h l =
    let k = unescaped-some s h in
    let last = last-behind quote (quote ∷ s) (omega arith) ∙ last-behind quote s h in
    record {
      told = rw last (ends-behind quote (unescaped s) k ∙ l.told);
      two = λ q. omega arith;
      rest =
          λ q.
          let d = l.two (sym last ∙ q) in
          rw (take_behind 1 quote (unescaped s) k, take_behind 2 quote (quote ∷ s) (omega arith), take_behind 2 quote s d)
          (ap (λ (t : List ℕ). quote ∷ t) (l.rest (sym last ∙ q)));
    }

lost-none : Lost []
unfolding ends_in_quote unescaped
lost-none = record { told = refl; two = λ q. absurd (omega arith); rest = λ q. absurd (omega arith) }

lost-one : (b : ℕ) → eqb b quote ≡ false → Lost (b ∷ [])
unfolding ends_in_quote unescaped
lost-one b e =
    record { told = refl; two = λ q. absurd (eqb-false b quote e q); rest = λ q. absurd (eqb-false b quote e q) }

lost-pair : Lost (quote ∷ quote ∷ [])
unfolding ends_in_quote unescaped
lost-pair = record { told = refl; two = λ q. omega arith; rest = λ q. refl }

-- by whether anything is left
by-rest : {P : List ℕ → Type 0} → P [] → ((s : List ℕ) → 0 < length s → P s) → (s : List ℕ) → P s
by-rest none' some' [] = none'
by-rest none' some' (a ∷ s) = some' (a ∷ s) (omega arith)

pub lost : (s : List ℕ) → length s ≤ inside_size s → Lost s
lost =
    by-elements (λ s. length s ≤ inside_size s → Lost s) (λ h. lost-none)
    (λ b s e f h.
    by-rest {P = λ s. Lost s → Lost (b ∷ s)} (λ l. lost-one b e) (λ s k l. lost-byte b s e k l) s (f (omega (arith, size-byte b s e))))
    (λ s f h. by-rest {P = λ s. Lost s → Lost (quote ∷ quote ∷ s)} (λ l. lost-pair) lost-escaped s (f (omega (arith, size-escaped s))))
    (λ s e f h. absurd (omega (arith, size-single s e)))
