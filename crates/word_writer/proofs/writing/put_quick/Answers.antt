-- Each code by itself, with its numbers in their places.
use lib.Dec.{lit<}
use lib.ListN.{get_or, length-append}
use mathlib.Core.Bool.{true}
use mathlib.Core.List.{List, [], ◌∷◌, ◌++◌}
use mathlib.Core.Path.{◌≡◌, sym, ◌∙◌}
use Prim.Native.Nat.{ℕ, ◌+◌, ◌/◌, ◌%◌, ◌<◌}
use native.Mathlib.Omega.{arith}
use Rattle.laws.proofs.Digits.{num-digits, num-fits, length_digits}
use Rattle.laws.proofs.Laid.{laid_then}
use Rattle.meaning.specs.Bytes.{digits, num}
use Rattle.word_writer.proofs.Texts.{quick-year, quick-date, date-places}
use Rattle.word_writer.specs.Written.{behind_text, two_more, Small, is_quick, quick_text}
use Rattle.words.specs.Fields.{code, slot, last_byte}
use Rattle.word_writer.proofs.writing.put_quick.Goals as goal

-- what each code writes, by the numbers that the word says
module _ (ns : List ℕ) (w : ℕ) where
  byte : code w ≡ 1 → quick_text ns w ≡ last_byte w ∷ []
  unfolding quick_text
  byte e = rw e

  full : code w ≡ 3 → quick_text ns w ≡ num 2 (get_or ns (slot w) 0) ++ behind_text w
  unfolding quick_text
  full e = rw e

  few : code w ≡ 4 → quick_text ns w ≡ num 1 (get_or ns (slot w) 0) ++ behind_text w
  unfolding quick_text
  few e = rw e

  year : code w ≡ 9 → is_quick (get_or ns 10 0) w ≡ true
      → (get_or ns (w / 8 % 2 + 9) 0 < 10000) × (quick_text ns w ≡ digits 4 (get_or ns (w / 8 % 2 + 9) 0) ++ behind_text w)
  unfolding quick_text
  year e q =
      let at : w / 8 % 2 ≡ 1 = omega arith in
      rw at (quick-year (get_or ns 10 0) w q e, rw e)

  time : code w ≡ 10 → Small ns
      → (get_or ns (w % 8) 0 < 100)
      × (get_or ns (w % 8 + 1) 0 < 100)
      × (get_or ns (w % 8 + 2) 0 < 100)
      × (quick_text ns w ≡ num 2 (get_or ns (w % 8) 0) ++ two_more (num 2 (get_or ns (w % 8 + 1) 0)) (num 2 (get_or ns (w % 8 + 2) 0)) w)
  unfolding quick_text
  time e small =
      let at : w % 8 ≡ 2 = omega arith in
      rw at (small 2 (omega arith), small 3 (omega arith), small 4 (omega arith), rw e)

  date : (code w ≡ 1 → ⊥) → (code w ≡ 3 → ⊥) → (code w ≡ 4 → ⊥) → (code w ≡ 9 → ⊥) → (code w ≡ 10 → ⊥) → is_quick (get_or ns 10 0) w ≡ true → Small ns
      → (get_or ns (w / 8 % 2 + 9) 0 < 10000)
      × (get_or ns (w % 8 + 1) 0 < 100)
      × (get_or ns (w % 8 + 2) 0 < 100)
      × (quick_text ns w ≡ digits 4 (get_or ns (w / 8 % 2 + 9) 0) ++ two_more (num 2 (get_or ns (w % 8 + 1) 0)) (num 2 (get_or ns (w % 8 + 2) 0)) w)
  unfolding quick_text
  date byte full few year time q small =
      let last = quick-date (get_or ns 10 0) w q byte full few year time in
      let e : code w ≡ 15 = last.0 in
      let at = date-places w e in
      rw (at.0, at.1) (last.1, small 8 (lit< tt), small 9 (lit< tt), rw e)

pub put_byte-requires : goal.put_byte-requires
put_byte-requires c =
    let a = c.args in
    let ns = a.numbers.now in
    let e : code a.w ≡ 1 = sym c.code.ensures ∙ c.in-1.is in
    omega (arith, rw (byte ns a.w e) at c.requires.w_in_bounds)

pub put_full-requires : goal.put_full-requires
put_full-requires c =
    let a = c.args in
    let ns = a.numbers.now in
    let e : code a.w ≡ 3 = sym c.code.ensures ∙ c.in-3.is in
    let said : quick_text ns a.w ≡ num 2 (get_or ns c.slot-short.result 0) ++ behind_text a.w = rw c.slot-short.ensures.0 (full ns a.w e) in
    (c.requires.small c.slot-short.result (omega (arith, c.slot-short.ensures.1)), rw said at c.requires.w_in_bounds)

pub put_few-requires : goal.put_few-requires
put_few-requires c =
    let a = c.args in
    let ns = a.numbers.now in
    let e : code a.w ≡ 4 = sym c.code.ensures ∙ c.in-4.is in
    let said : quick_text ns a.w ≡ num 1 (get_or ns c.slot-short.result 0) ++ behind_text a.w = rw c.slot-short.ensures.0 (few ns a.w e) in
    (c.requires.small c.slot-short.result (omega (arith, c.slot-short.ensures.1)), rw said at c.requires.w_in_bounds)

pub put_four-next-requires : goal.put_four-next-requires
put_four-next-requires c =
    let a = c.args in
    let ns = a.numbers.now in
    let e : code a.w ≡ 9 = sym c.code.ensures ∙ c.in-9.is in
    let said = year ns a.w e c.requires.w_value in
    (said.0, omega (arith, rw (said.1, length-append, length_digits 4 (get_or ns (a.w / 8 % 2 + 9) 0)) at c.requires.w_in_bounds))

pub put_behind-requires : goal.put_behind-requires
put_behind-requires c =
    let a = c.args in
    let ns = a.numbers.now in
    let e : code a.w ≡ 9 = sym c.code.ensures ∙ c.in-9.is in
    let said = year ns a.w e c.requires.w_value in
    let wrote = c.put_four-next in
    omega (arith, rw (said.1, length-append) at c.requires.w_in_bounds, wrote.ensures.end, wrote.auto.out)

pub put_two-next-requires : goal.put_two-next-requires
put_two-next-requires c =
    let a = c.args in
    let ns = a.numbers.now in
    let e : code a.w ≡ 10 = sym c.code.ensures ∙ c.in-10.is in
    let said = time ns a.w e c.requires.small in
    (said.0, omega (arith, num-fits 2 (get_or ns (a.w % 8) 0) (omega arith) said.0, rw (said.3, length-append) at c.requires.w_in_bounds))

pub put_two_more-requires : goal.put_two_more-requires
put_two_more-requires c =
    let a = c.args in
    let ns = a.numbers.now in
    let e : code a.w ≡ 10 = sym c.code.ensures ∙ c.in-10.is in
    let said = time ns a.w e c.requires.small in
    let hour = get_or ns (a.w % 8) 0 in
    let wrote = c.put_two-next in
    (said.1, said.2, omega (arith, num-fits 2 hour (omega arith) said.0, rw (said.3, length-append) at c.requires.w_in_bounds, wrote.ensures.end, length_digits 2 hour, wrote.auto.out))

pub put_four-next-requires-in_default : goal.put_four-next-requires-in_default
put_four-next-requires-in_default c =
    let a = c.args in
    let ns = a.numbers.now in
    let said = date ns a.w (λ e. omega arith) (λ e. omega arith) (λ e. omega arith) (λ e. omega arith) (λ e. omega arith) c.requires.w_value c.requires.small in
    (said.0, omega (arith, rw (said.3, length-append, length_digits 4 (get_or ns (a.w / 8 % 2 + 9) 0)) at c.requires.w_in_bounds))

pub put_two_more-requires-in_default : goal.put_two_more-requires-in_default
put_two_more-requires-in_default c =
    let a = c.args in
    let ns = a.numbers.now in
    let said = date ns a.w (λ e. omega arith) (λ e. omega arith) (λ e. omega arith) (λ e. omega arith) (λ e. omega arith) c.requires.w_value c.requires.small in
    let wrote = c.put_four-next-in_default in
    (said.1, said.2, omega (arith, rw (said.3, length-append) at c.requires.w_in_bounds, wrote.ensures.end, wrote.auto.out))

pub returns-in-1 : goal.returns-in-1
returns-in-1 c =
    let a = c.args in
    let ns = a.numbers.now in
    let e : code a.w ≡ 1 = sym c.code.ensures ∙ c.in-1.is in
    rw (byte ns a.w e, ← c.last_byte.ensures) c.put_byte.ensures

pub returns-in-3 : goal.returns-in-3
returns-in-3 c =
    let a = c.args in
    let ns = a.numbers.now in
    let e : code a.w ≡ 3 = sym c.code.ensures ∙ c.in-3.is in
    let said : quick_text ns a.w ≡ num 2 (get_or ns c.slot-short.result 0) ++ behind_text a.w = rw c.slot-short.ensures.0 (full ns a.w e) in
    rw said c.put_full.ensures

pub returns-in-4 : goal.returns-in-4
returns-in-4 c =
    let a = c.args in
    let ns = a.numbers.now in
    let e : code a.w ≡ 4 = sym c.code.ensures ∙ c.in-4.is in
    let said : quick_text ns a.w ≡ num 1 (get_or ns c.slot-short.result 0) ++ behind_text a.w = rw c.slot-short.ensures.0 (few ns a.w e) in
    rw said c.put_few.ensures

pub returns-in-9 : goal.returns-in-9
returns-in-9 c =
    let a = c.args in
    let ns = a.numbers.now in
    let e : code a.w ≡ 9 = sym c.code.ensures ∙ c.in-9.is in
    let said = year ns a.w e c.requires.w_value in
    rw said.1 (laid_then c.put_four-next.ensures c.put_behind.ensures)

pub returns-in-10 : goal.returns-in-10
returns-in-10 c =
    let a = c.args in
    let ns = a.numbers.now in
    let e : code a.w ≡ 10 = sym c.code.ensures ∙ c.in-10.is in
    let said = time ns a.w e c.requires.small in
    rw (said.3, num-digits 2 (get_or ns (a.w % 8) 0) (omega arith) said.0) (laid_then c.put_two-next.ensures c.put_two_more.ensures)

pub returns-in_default : goal.returns-in_default
returns-in_default c =
    let a = c.args in
    let ns = a.numbers.now in
    let said = date ns a.w (λ e. omega arith) (λ e. omega arith) (λ e. omega arith) (λ e. omega arith) (λ e. omega arith) c.requires.w_value c.requires.small in
    rw said.3 (laid_then c.put_four-next-in_default.ensures c.put_two_more-in_default.ensures)
