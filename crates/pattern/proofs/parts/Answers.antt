-- The four answers of next_part: a run, escaped quotes, a quoted part, one that no quote closes.
use mathlib.Core.List.{List}
use mathlib.Core.Path.{◌≡◌}
use Prim.Native.Nat.{ℕ, ◌+◌, ◌*◌, ◌≤◌, ◌<◌}
use lib.ListN.{length, get_or, drop}
use lib.Seq.{drop-drop}
use borrow.Author.Tests.{eq-eqb, ne_eqb, lt-ltb, le-ltb}
use Rattle.meaning.specs.Bytes.{quote}
use Rattle.meaning.specs.Splitting.{length_of}
use Rattle.meaning.specs.declared.Kind.TheVariants.{Run, Quotes, Quoted, Open}
use Rattle.pattern.specs.First.{run_length, escaped_count, inside_size, opened_content, first_content, part_of}
use Rattle.pattern.proofs.parts.First.{inside-length}
use Rattle.pattern.proofs.parts.Scans.{head_at}

module _ (p : List ℕ) (at n : ℕ) where
  pub part-run : (get_or p at 0 ≡ quote → ⊥) → n ≡ run_length (get_or p at 0) (drop at p)
      → record { kind = Run; start = at; length = n } ≡ part_of at (first_content (drop at p))
  unfolding first_content length_of
  part-run e l = rw (head_at p at, ne_eqb (get_or p at 0) quote e, l)

  pub part-quotes : get_or p at 0 ≡ quote → 0 < escaped_count (drop at p) → n ≡ 2 * escaped_count (drop at p)
      → record { kind = Quotes; start = at; length = n } ≡ part_of at (first_content (drop at p))
  unfolding first_content length_of
  part-quotes e k l = rw (head_at p at, eq-eqb (get_or p at 0) quote e, lt-ltb 0 (escaped_count (drop at p)) k, l)

  module _ (e : get_or p at 0 ≡ quote) (k : escaped_count (drop at p) ≤ 0) where
    opened : first_content (drop at p) ≡ opened_content (drop (at + 1) p)
    unfolding first_content
    opened = rw (head_at p at, eq-eqb (get_or p at 0) quote e, le-ltb 0 (escaped_count (drop at p)) k, drop-drop 1 at p)

    pub part-quoted : inside_size (drop (at + 1) p) < length (drop (at + 1) p) → n ≡ 2 + inside_size (drop (at + 1) p)
        → record { kind = Quoted; start = at; length = n } ≡ part_of at (first_content (drop at p))
    unfolding opened_content length_of
    part-quoted h l = rw (opened, lt-ltb _ _ h, inside-length (drop (at + 1) p), l)

    pub part-open : length (drop (at + 1) p) ≤ inside_size (drop (at + 1) p) → n ≡ 1 + inside_size (drop (at + 1) p)
        → record { kind = Open; start = at; length = n } ≡ part_of at (first_content (drop at p))
    unfolding opened_content length_of
    part-open h l = rw (opened, le-ltb _ _ h, inside-length (drop (at + 1) p), l)
