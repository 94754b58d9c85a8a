-- Each code by itself.
use lib.ListN.{length, length-append, length-replicate}
use mathlib.Core.Path.{◌≡◌, sym, ◌∙◌}
use Prim.Native.Nat.{◌<◌, ◌≤◌}
use native.Mathlib.Omega.{arith}
use Rattle.format.proofs.step.Texts.{short-small}
use Rattle.laws.proofs.Digits.{num-fits}
use Rattle.laws.proofs.Fields.{allowed}
use Rattle.meaning.specs.Bytes.{num}
use Rattle.meaning.specs.OpenedBooks.{book_in}
use Rattle.meaning.specs.Writing.{quantity_of, signed_text, rule_text}
use Rattle.meaning.specs.declared.Quantity.TheVariants.{Month, Day, Hour0To23, Minute, Second}
use Rattle.word_writer.proofs.Bounds.{two_digits, two-more-length, rule_fits}
use Rattle.word_writer.proofs.Held.{held-count}
use Rattle.word_writer.proofs.Texts.{byte-text, full-text, few-text, year-word-text, time-text, date-text, rule-word-text, long-year-text, times-text, held-text, none-text}
use Rattle.rules.specs.ShortRules.{short_quantity}
use Rattle.rules.specs.declared.short.Short.TheVariants as short
use Rattle.words.specs.Coding.{rule_in}
use Rattle.words.specs.Fields.{slot, from}
use Rattle.words.specs.Pieces.{short_in}
use Rattle.word_writer.proofs.measuring.word_length.Goals as goal

pub overflow_add-result-in-4 : goal.overflow_add-result-in-4
overflow_add-result-in-4 c =
    let number = c.short_number in
    let small : number.result < 100 = rw number.ensures (short-small c.short_in.result c.args.f (allowed c.args.f c.requires)) in
    let few : c.padded_length.result ≤ 2 = omega (arith, two_digits 1 number.result (omega arith) small, c.padded_length.ensures) in
    omega (arith, few, c.behind_length-behind.ensures.1)

pub rule_length-requires : goal.rule_length-requires
rule_length-requires c =
    record { f_value = c.requires; f_len_bound = rw c.rule_in.ensures (omega (arith, rule_fits c.args.book.now c.args.f c.requires c.args.w)) }

pub overflow_add-result-in-22 : goal.overflow_add-result-in-22
overflow_add-result-in-22 c =
    let ruled : c.rule_length.result ≡ length (rule_text (book_in c.args.book.now) (rule_in c.args.w) c.args.f) = rw (← c.rule_in.ensures) c.rule_length.ensures in
    omega (arith, ruled, rule_fits c.args.book.now c.args.f c.requires c.args.w, c.behind_length-behind.ensures.1)

pub returns-in-1 : goal.returns-in-1
returns-in-1 c =
    let a = c.args in
    let book = book_in a.book.now in
    let tail = a.tail.now in
    let e = sym c.code.ensures ∙ c.in-1.is in
    rw (byte-text book tail a.f a.w e)

pub returns-in-3 : goal.returns-in-3
returns-in-3 c =
    let a = c.args in
    let book = book_in a.book.now in
    let tail = a.tail.now in
    let e = sym c.code.ensures ∙ c.in-3.is in
    let small = short-small (short_in (slot a.w)) a.f (allowed a.f c.requires) in
    rw (full-text book tail a.f a.w e, length-append)
    (omega (arith, num-fits 2 (quantity_of (short_quantity (short_in (slot a.w))) a.f) (omega arith) small, c.behind_length-behind.ensures.0))

pub returns-in-4 : goal.returns-in-4
returns-in-4 c =
    let a = c.args in
    let book = book_in a.book.now in
    let tail = a.tail.now in
    let e = sym c.code.ensures ∙ c.in-4.is in
    let digits : c.padded_length.result ≡ length (num 1 (quantity_of (short_quantity (short_in (slot a.w))) a.f))
    = rw (← c.slot.ensures.0, ← c.short_in.ensures, ← c.short_number.ensures) c.padded_length.ensures in
    rw (few-text book tail a.f a.w e, length-append) (omega (arith, digits, c.behind_length-behind.ensures.0))

pub returns-in-9 : goal.returns-in-9
returns-in-9 c =
    let a = c.args in
    let book = book_in a.book.now in
    let tail = a.tail.now in
    let e = sym c.code.ensures ∙ c.in-9.is in
    let digits : c.years_length.result ≡ length (signed_text (slot a.w) a.f.year) = rw (← c.slot-in-9.ensures.0) c.years_length.ensures.0 in
    rw (year-word-text book tail a.f a.w e, length-append) (omega (arith, digits, c.behind_length-behind.ensures.0))

pub returns-in-10 : goal.returns-in-10
returns-in-10 c =
    let a = c.args in
    let book = book_in a.book.now in
    let tail = a.tail.now in
    let e = sym c.code.ensures ∙ c.in-10.is in
    let ok = allowed a.f c.requires in
    rw (time-text book tail a.f a.w e, length-append)
    (omega (
      arith,
      num-fits 2 (quantity_of Hour0To23 a.f) (omega arith) (short-small short.Hour a.f ok),
      two-more-length (quantity_of Minute a.f) (quantity_of Second a.f) a.w (short-small short.Minute a.f ok) (short-small short.Second a.f ok),
      c.behind_length-behind.ensures.0,
    ))

pub returns-in-15 : goal.returns-in-15
returns-in-15 c =
    let a = c.args in
    let book = book_in a.book.now in
    let tail = a.tail.now in
    let e = sym c.code.ensures ∙ c.in-15.is in
    let ok = allowed a.f c.requires in
    rw (date-text book tail a.f a.w e, length-append)
    (omega (
      arith,
      c.years_length-in-15.ensures.0,
      two-more-length (quantity_of Month a.f) (quantity_of Day a.f) a.w (short-small short.Month a.f ok) (short-small short.Day a.f ok),
      c.behind_length-behind.ensures.0,
    ))

pub returns-in-22 : goal.returns-in-22
returns-in-22 c =
    let a = c.args in
    let book = book_in a.book.now in
    let tail = a.tail.now in
    let e = sym c.code.ensures ∙ c.in-22.is in
    let ruled : c.rule_length.result ≡ length (rule_text (book_in c.args.book.now) (rule_in c.args.w) c.args.f) = rw (← c.rule_in.ensures) c.rule_length.ensures in
    rw (rule-word-text book tail a.f a.w e, length-append) (omega (arith, ruled, c.behind_length-behind.ensures.0))

pub returns-in-29 : goal.returns-in-29
returns-in-29 c =
    let a = c.args in
    let book = book_in a.book.now in
    let tail = a.tail.now in
    let e = sym c.code.ensures ∙ c.in-29.is in
    rw (long-year-text book tail a.f a.w e, ← c.count.ensures.0) c.years_length-in-29.ensures.0

pub returns-in-30 : goal.returns-in-30
returns-in-30 c =
    let a = c.args in
    let book = book_in a.book.now in
    let tail = a.tail.now in
    let e = sym c.code.ensures ∙ c.in-30.is in
    rw (times-text book tail a.f a.w e, length-replicate) c.count-in-30.ensures.0

pub returns-in-31 : goal.returns-in-31
returns-in-31 c =
    let a = c.args in
    let book = book_in a.book.now in
    let tail = a.tail.now in
    let e = sym c.code.ensures ∙ c.in-31.is in
    rw (held-text book tail a.f a.w e, c.held_length.ensures.0)
    (omega (arith, held-count tail (from a.w) c.held_length.result, c.held_length.ensures.1))

pub returns-in_default : goal.returns-in_default
returns-in_default c =
    let a = c.args in
    rw (none-text (book_in a.book.now) a.tail.now a.f a.w
    (λ e. omega arith) (λ e. omega arith) (λ e. omega arith) (λ e. omega arith) (λ e. omega arith)
    (λ e. omega arith) (λ e. omega arith) (λ e. omega arith) (λ e. omega arith) (λ e. omega arith))
