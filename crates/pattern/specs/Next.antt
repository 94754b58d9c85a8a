-- What next_part promises its callers of a part: what it holds, and what is left of the pattern behind it.
use Rattle.std.specs.Prelude.{List, ◌∷◌, ◌≡◌, ℕ, ◌+◌, ◌-◌, ◌≤◌, ◌<◌, eqb, length, get_or, take, drop, replicate}
use Rattle.meaning.specs.Bytes.{quote}
use Rattle.meaning.specs.Splitting.{contents, parts_from}
use Rattle.meaning.specs.Writing.{ends_in_quote}
use Rattle.meaning.specs.declared.Kind.TheVariants.{Run, Quoted, Open}
use Rattle.meaning.specs.declared.Part.{Part}
use Rattle.pattern.specs.First.{unescaped, part_of, content_of}

-- What a write loses of an inside that nothing closes: if the last byte is a quote, it and the one before are the last element.
pub record Lost (s : List ℕ) : Type 0 where
  pub told : ends_in_quote (unescaped s) ≡ eqb (get_or s (length s - 1) 0) quote
  pub two : get_or s (length s - 1) 0 ≡ quote → 2 ≤ length s
  pub rest : get_or s (length s - 1) 0 ≡ quote → take (length (unescaped s) - 1) (unescaped s) ≡ unescaped (take (length s - 2) s)

-- What next_part finds at a place: a part with what it holds, before the contents and the parts of what is left.
pub record Next (p : List ℕ) (at : ℕ) (part : Part) : Type 0 where
  pub itself : part ≡ part_of at (content_of p part)
  pub walk : contents (drop at p) ≡ content_of p part ∷ contents (drop (at + part.length) p)
  pub parts : parts_from at (contents (drop at p)) ≡ part ∷ parts_from (at + part.length) (contents (drop (at + part.length) p))
  pub some : 0 < part.length
  pub fits : at + part.length ≤ length p
  -- a run's bytes are equal
  pub equal : part.kind ≡ Run → take part.length (drop at p) ≡ replicate part.length (get_or p at 0)
  -- a quoted part has its two quotes
  pub two : part.kind ≡ Quoted → 2 ≤ part.length
  -- an open part ends with the pattern
  pub end : part.kind ≡ Open → at + part.length ≡ length p
  -- and a write may lose its last element
  pub lost : part.kind ≡ Open → Lost (drop (at + 1) p)
