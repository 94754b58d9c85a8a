-- One turn of each scan, at a place of the pattern, and its end.
use mathlib.Core.Bool.{false}
use mathlib.Core.List.{List, ◌∷◌}
use mathlib.Core.Path.{◌≡◌, sym, ◌∙◌}
use Prim.Native.Nat.{ℕ, ◌+◌, ◌≤◌, ◌<◌}
use native.Mathlib.Nat.{add-zero}
use native.Mathlib.Numerals.{add-one}
use native.Mathlib.Omega.{arith}
use lib.Dec.{eqb}
use lib.ListN.{length, get_or, drop, drop_of_length-le, length-drop, get_or-eq_default}
use lib.Seq.{drop-cons, get_or-drop}
use borrow.Author.Tests.{ne_eqb}
use Rattle.meaning.specs.Bytes.{quote}
use Rattle.pattern.specs.First.{run_length, escaped_count, inside_size}
use Rattle.pattern.proofs.parts.First.{run-same, run-apart, count-byte, count-escaped, count-single, escaped-fit, size-byte, size-escaped, size-single}

module _ (p : List ℕ) (i : ℕ) where
  pub head_at : get_or (drop i p) 0 0 ≡ get_or p i 0
  head_at = get_or-drop i p 0 0 ∙ rw add-zero

  not-quote-at : (get_or p i 0 ≡ quote → ⊥) → eqb (get_or (drop i p) 0 0) quote ≡ false
  not-quote-at e = rw head_at (ne_eqb (get_or p i 0) quote e)

module _ (p : List ℕ) (i : ℕ) (h : i < length p) where
  pub from-here : drop i p ≡ get_or p i 0 ∷ drop (i + 1) p
  from-here = rw add-one (drop-cons p i 0 h)

  pub run_more : (b : ℕ) → get_or p i 0 ≡ b → run_length b (drop i p) ≡ 1 + run_length b (drop (i + 1) p)
  run_more b e = rw (from-here, e) (omega (arith, run-same b (drop (i + 1) p)))

  pub run-stop : (b : ℕ) → (get_or p i 0 ≡ b → ⊥) → run_length b (drop i p) ≡ 0
  run-stop b e = rw from-here (run-apart b (get_or p i 0) (drop (i + 1) p) (ne_eqb b (get_or p i 0) (λ f. e (sym f))))

  -- a byte that is no quote
  pub escaped-stop : (get_or p i 0 ≡ quote → ⊥) → escaped_count (drop i p) ≡ 0
  escaped-stop e = rw from-here (count-byte (get_or p i 0) (drop (i + 1) p) (ne_eqb (get_or p i 0) quote e))

  pub inside-byte : (get_or p i 0 ≡ quote → ⊥) → inside_size (drop i p) ≡ 1 + inside_size (drop (i + 1) p)
  inside-byte e = rw from-here (size-byte (get_or p i 0) (drop (i + 1) p) (ne_eqb (get_or p i 0) quote e) ∙ omega arith)

  -- a quote with no quote behind it
  pub escaped-single : get_or p i 0 ≡ quote → (get_or p (i + 1) 0 ≡ quote → ⊥) → escaped_count (drop i p) ≡ 0
  escaped-single e f = rw (from-here, e) (count-single (drop (i + 1) p) (not-quote-at p (i + 1) f))

  pub inside-close : get_or p i 0 ≡ quote → (get_or p (i + 1) 0 ≡ quote → ⊥) → inside_size (drop i p) ≡ 0
  inside-close e f = rw (from-here, e) (size-single (drop (i + 1) p) (not-quote-at p (i + 1) f))

-- two quotes
module _ (p : List ℕ) (i : ℕ) (h : i + 1 < length p) (e : get_or p i 0 ≡ quote) (f : get_or p (i + 1) 0 ≡ quote) where
  two-quotes : drop i p ≡ quote ∷ quote ∷ drop (i + 2) p
  two-quotes =
      let k : i + 2 ≡ i + 1 + 1 = omega arith in
      rw (k, from-here p i (omega arith), from-here p (i + 1) h, e, f)

  pub escaped-more : escaped_count (drop i p) ≡ 1 + escaped_count (drop (i + 2) p)
  escaped-more = rw two-quotes (count-escaped (drop (i + 2) p) ∙ omega arith)

  pub inside-more : inside_size (drop i p) ≡ 2 + inside_size (drop (i + 2) p)
  inside-more = rw two-quotes (size-escaped (drop (i + 2) p) ∙ omega arith)

-- the pattern's end
module _ (p : List ℕ) (i : ℕ) where
  pub run-done : (b : ℕ) → length p ≤ i → run_length b (drop i p) ≡ 0
  unfolding run_length
  run-done b h = rw (drop_of_length-le p h)

  pub escaped-done : length p ≤ i + 1 → escaped_count (drop i p) ≡ 0
  escaped-done h = omega (arith, escaped-fit (drop i p), length-drop i p)

  pub inside-done : length p ≤ i → inside_size (drop i p) ≡ 0
  unfolding inside_size
  inside-done h = rw (drop_of_length-le p h)

  pub past_end : length p ≤ i → get_or p i 0 ≡ quote → ⊥
  past_end h e = let k : get_or p i 0 ≡ 0 = get_or-eq_default p 0 h in omega arith
