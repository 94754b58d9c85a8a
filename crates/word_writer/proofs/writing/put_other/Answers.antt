-- Each code by itself.
use borrow.Author.Tests.{ne_eqb}
use lib.ListN.{length, replicate, length-append, length-replicate}
use mathlib.Core.List.{List, ◌++◌}
use Prim.Native.Nat.{ℕ, ◌-◌, ◌≤◌}
use Rattle.meaning.specs.declared.Fields.{Fields}
use mathlib.Core.Path.{◌≡◌, sym, ◌∙◌, refl}
use native.Mathlib.Omega.{arith}
use Rattle.laws.proofs.Fields.{allowed}
use Rattle.laws.proofs.Laid.{laid_then}
use Rattle.meaning.specs.Bytes.{num}
use Rattle.meaning.specs.Writing.{signed_text}
use Rattle.word_writer.proofs.Held.{held-count}
use Rattle.word_writer.specs.Written.{behind_text, two_more, held_text, other_text}
use Rattle.words.specs.Fields.{code, slot, count, last_byte}
use Rattle.words.specs.Pieces.{held_bytes}
use Rattle.word_writer.proofs.writing.put_other.Goals as goal

-- the text of each code
module _ (tail : List ℕ) (f : Fields) (w : ℕ) where
  year-text : code w ≡ 9 → other_text tail f w ≡ signed_text (slot w) f.year ++ behind_text w
  unfolding other_text
  year-text e = rw e

  date-text : code w ≡ 15 → other_text tail f w ≡ signed_text 4 f.year ++ two_more (num 2 f.month) (num 2 f.day) w
  unfolding other_text
  date-text e = rw e

  long-text : code w ≡ 29 → other_text tail f w ≡ signed_text (count w) f.year
  unfolding other_text
  long-text e = rw e

  times-text : code w ≡ 30 → other_text tail f w ≡ replicate (count w) (last_byte w)
  unfolding other_text
  times-text e = rw e

  held-text : code w ≡ 31 → other_text tail f w ≡ held_text tail w
  unfolding other_text
  held-text e = rw e

pub put_year-next-requires : goal.put_year-next-requires
put_year-next-requires c =
    let a = c.args in
    let told : other_text a.tail.now a.f a.w ≡ signed_text c.slot.result a.f.year ++ behind_text a.w = rw c.slot.ensures.0 (year-text a.tail.now a.f a.w (sym c.code.ensures ∙ c.in-9.is)) in
    omega (arith, rw (told, length-append) at c.requires.w_in_bounds)

pub put_behind-requires : goal.put_behind-requires
put_behind-requires c =
    let a = c.args in
    let told : other_text a.tail.now a.f a.w ≡ signed_text c.slot.result a.f.year ++ behind_text a.w = rw c.slot.ensures.0 (year-text a.tail.now a.f a.w (sym c.code.ensures ∙ c.in-9.is)) in
    let wrote = c.put_year-next in
    omega (arith, rw (told, length-append) at c.requires.w_in_bounds, wrote.ensures.end, wrote.auto.out)

pub put_year-next-requires-in-15 : goal.put_year-next-requires-in-15
put_year-next-requires-in-15 c =
    let a = c.args in
    let told : other_text a.tail.now a.f a.w ≡ signed_text 4 a.f.year ++ two_more (num 2 a.f.month) (num 2 a.f.day) a.w = date-text a.tail.now a.f a.w (sym c.code.ensures ∙ c.in-15.is) in
    omega (arith, rw (told, length-append) at c.requires.w_in_bounds)

pub put_two_more-requires : goal.put_two_more-requires
put_two_more-requires c =
    let a = c.args in
    let told : other_text a.tail.now a.f a.w ≡ signed_text 4 a.f.year ++ two_more (num 2 a.f.month) (num 2 a.f.day) a.w = date-text a.tail.now a.f a.w (sym c.code.ensures ∙ c.in-15.is) in
    let ok = allowed a.f c.requires.f_value in
    let wrote = c.put_year-next-in-15 in
    (omega (arith, ok), omega (arith, ok), omega (arith, rw (told, length-append) at c.requires.w_in_bounds, wrote.ensures.end, wrote.auto.out))

pub put_year-requires : goal.put_year-requires
put_year-requires c =
    let a = c.args in
    let told : other_text a.tail.now a.f a.w ≡ signed_text c.count.result a.f.year = rw c.count.ensures.0 (long-text a.tail.now a.f a.w (sym c.code.ensures ∙ c.in-29.is)) in
    rw told at c.requires.w_in_bounds

pub put_times-requires : goal.put_times-requires
put_times-requires c =
    let a = c.args in
    let told : other_text a.tail.now a.f a.w ≡ replicate c.count-in-30.result c.last_byte.result = rw (c.count-in-30.ensures.0, c.last_byte.ensures) (times-text a.tail.now a.f a.w (sym c.code.ensures ∙ c.in-30.is)) in
    rw (told, length-replicate) at c.requires.w_in_bounds

pub put_held-requires : goal.put_held-requires
put_held-requires c =
    let a = c.args in
    let told : other_text a.tail.now a.f a.w ≡ held_bytes a.tail.now c.from.result c.held_length.result = rw c.from.ensures.0 (held-text a.tail.now a.f a.w (sym c.code.ensures ∙ c.in-31.is) ∙ c.held_length.ensures.0) in
    let size = held-count a.tail.now c.from.result c.held_length.result in
    let there : c.held_length.result ≤ length a.tail.now - c.from.result = rw (← c.from.ensures.0) at c.held_length.ensures.1 in
    record { n_in_bounds = there; n_in_bounds_2 = omega (arith, rw told at c.requires.w_in_bounds, size, there) }

pub returns-in-9 : goal.returns-in-9
returns-in-9 c =
    let a = c.args in
    let told : other_text a.tail.now a.f a.w ≡ signed_text c.slot.result a.f.year ++ behind_text a.w = rw c.slot.ensures.0 (year-text a.tail.now a.f a.w (sym c.code.ensures ∙ c.in-9.is)) in
    rw told (laid_then c.put_year-next.ensures c.put_behind.ensures)

pub returns-in-15 : goal.returns-in-15
returns-in-15 c =
    let a = c.args in
    let told : other_text a.tail.now a.f a.w ≡ signed_text 4 a.f.year ++ two_more (num 2 a.f.month) (num 2 a.f.day) a.w = date-text a.tail.now a.f a.w (sym c.code.ensures ∙ c.in-15.is) in
    rw told (laid_then c.put_year-next-in-15.ensures c.put_two_more.ensures)

pub returns-in-29 : goal.returns-in-29
returns-in-29 c =
    let a = c.args in
    let told : other_text a.tail.now a.f a.w ≡ signed_text c.count.result a.f.year = rw c.count.ensures.0 (long-text a.tail.now a.f a.w (sym c.code.ensures ∙ c.in-29.is)) in
    rw told c.put_year.ensures

pub returns-in-30 : goal.returns-in-30
returns-in-30 c =
    let a = c.args in
    let told : other_text a.tail.now a.f a.w ≡ replicate c.count-in-30.result c.last_byte.result = rw (c.count-in-30.ensures.0, c.last_byte.ensures) (times-text a.tail.now a.f a.w (sym c.code.ensures ∙ c.in-30.is)) in
    rw told c.put_times.ensures

pub returns-in-31 : goal.returns-in-31
returns-in-31 c =
    let a = c.args in
    let told : other_text a.tail.now a.f a.w ≡ held_bytes a.tail.now c.from.result c.held_length.result = rw c.from.ensures.0 (held-text a.tail.now a.f a.w (sym c.code.ensures ∙ c.in-31.is) ∙ c.held_length.ensures.0) in
    rw told c.put_held.ensures

pub returns-in_default : goal.returns-in_default
unfolding other_text
returns-in_default c =
    let w = c.args.w in
    simp (
      ne_eqb (code w) 9 (omega arith),
      ne_eqb (code w) 15 (omega arith),
      ne_eqb (code w) 29 (omega arith),
      ne_eqb (code w) 30 (omega arith),
      ne_eqb (code w) 31 (omega arith),
    ) (record { end = omega arith; held = refl })
