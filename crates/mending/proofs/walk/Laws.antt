-- The mended pattern of what is left of a pattern, part by part.
use mathlib.Core.List.{List, [], ◌++◌}
use mathlib.Core.Path.{◌≡◌, refl, sym, ap, ◌∙◌}
use Prim.Native.Nat.{ℕ, ◌+◌, ◌-◌, ◌≤◌}
use native.Mathlib.Omega.{arith}
use lib.ListN.{length, replicate, take, drop, length-append, length-replicate, length-drop, drop_of_length-le}
use lib.Seq.{length-take-le}
use Rattle.meaning.specs.Mending.{space, mend_part, own_change}
use Rattle.meaning.specs.Splitting.{contents, length_of}
use Rattle.meaning.specs.declared.Change.{Change}
use Rattle.meaning.specs.declared.Edition.{Edition}
use Rattle.meaning.specs.declared.Part.{Part}
use Rattle.mending.proofs.parts.Laws.{own-grows, own-bytes, own-length, part_bytes_lem}
use Rattle.pattern.proofs.parts.Walks.{part-long}
use Rattle.pattern.specs.First.{content_of}
use Rattle.pattern.specs.Next.{Next}
use Rattle.trust.proofs.MendedSizes as sizes
use Rattle.trust.specs.Mending.{gap, mended_bytes, mended}

abbrev pub left_from : Edition → List ℕ → ℕ → List ℕ
left_from edition p place = mended_bytes edition (contents (drop place p))

pub all_left : (edition : Edition) (p : List ℕ) → mended edition p ≡ left_from edition p 0
unfolding mended
all_left edition p = refl

pub none_left : (edition : Edition) (p : List ℕ) (place : ℕ) → length p ≤ place → left_from edition p place ≡ []
unfolding contents mended_bytes
none_left edition p place h = rw (drop_of_length-le p h)

-- the bytes of a part, as the code lends them

pub slice-bytes : {p : List ℕ} {place : ℕ} {part : Part} → Next p place part → take (place + part.length - place) (drop place p) ≡ take part.length (drop place p)
slice-bytes {p} {place} {part} n = let e : place + part.length - place ≡ part.length = omega arith in rw e

pub slice-long : {p : List ℕ} {place : ℕ} {part : Part} → Next p place part → length (take (place + part.length - place) (drop place p)) ≡ part.length
slice-long {p} {place} {part} n =
    ap length (slice-bytes n) ∙ length-take-le part.length (drop place p) (omega (arith, n.fits, length-drop place p))

-- what is laid of a part is as long as it, what is added and the spaces
pub text-long : {p : List ℕ} {place : ℕ} {part : Part} → Next p place part → (b k spaces : ℕ)
    → length (take part.length (drop place p) ++ replicate k b ++ replicate spaces space) ≡ part.length + k + spaces
text-long {p} {place} {part} n b k spaces =
    let own = take part.length (drop place p) in
    omega (arith, length-append (own ++ replicate k b) (replicate spaces space), length-append own (replicate k b), length-replicate k b, length-replicate spaces space, length-take-le part.length (drop place p) (omega (arith, n.fits, length-drop place p)))

-- a part with what the code finds of it: its own change, where it stands at a place, and the spaces behind it
pub record Found (edition : Edition) (p : List ℕ) (at place : ℕ) (part : Part) (own : Change) (spaces : ℕ) : Type 0 where
  pub next : Next p place part
  pub own-told : own ≡ own_change edition at (content_of p part)
  pub spaces-told : spaces ≡ gap edition (content_of p part) (contents (drop (part.start + part.length) p))

pub found : {edition : Edition} {p : List ℕ} {at place : ℕ} {part : Part} {own : Change} {spaces : ℕ} → Next p place part
    → own ≡ own_change edition at (content_of p part) → spaces ≡ gap edition (content_of p part) (contents (drop (part.start + part.length) p))
    → Found edition p at place part own spaces
found n own spaces = record { next = n; own-told = own; spaces-told = spaces }

module _ {edition : Edition} {p : List ℕ} {at place : ℕ} {part : Part} {own : Change} {spaces : ℕ} (f : Found edition p at place part own spaces) where
  pub grows : own.before ≤ own.after
  grows = rw f.own-told (own-grows edition at (content_of p part))

  pub gap-told : gap edition (content_of p part) (contents (drop (place + part.length) p)) ≡ spaces
  gap-told =
      let e : part.start ≡ place = ap (λ (q : Part). q.start) f.next.itself in
      sym (f.spaces-told ∙ ap (λ (k : ℕ). gap edition (content_of p part) (contents (drop (k + part.length) p))) e)

  pub bytes_next : left_from edition p place
      ≡ take part.length (drop place p) ++ replicate (own.after - own.before) own.byte ++ replicate spaces space ++ left_from edition p (place + part.length)
  unfolding mended_bytes
  bytes_next = ap (mended_bytes edition) f.next.walk ∙ rw (f.own-told, gap-told, own-bytes edition at (content_of p part), part_bytes_lem f.next)

  pub long-next : length_of (mend_part edition (content_of p part)) ≡ part.length + (own.after - own.before)
  long-next = rw f.own-told (own-length edition at (content_of p part) ∙ rw (part-long f.next))

  pub length-next : length (left_from edition p place) ≡ part.length + (own.after - own.before) + spaces + length (left_from edition p (place + part.length))
  length-next =
      let c = content_of p part in
      let cs = contents (drop (place + part.length) p) in
      ap (λ l. length (mended_bytes edition l)) f.next.walk ∙ omega (arith, sizes.mended-length edition c cs, long-next, gap-told)
