-- A name, any other rule, or what is rarest.
use lib.ListN.{length-append}
use mathlib.Core.List.{◌++◌}
use mathlib.Core.Path.{◌≡◌, sym, ◌∙◌}
use native.Mathlib.Omega.{arith}
use Rattle.laws.proofs.Laid.{laid_then}
use Rattle.meaning.specs.OpenedBooks.{book_in}
use Rattle.meaning.specs.Writing.{rule_text}
use Rattle.word_writer.proofs.Texts.{rule-word-text, name-word-text, other_word}
use Rattle.word_writer.specs.Written.{word_text, behind_text, matched_text, other_text}
use Rattle.words.specs.Coding.{rule_in}
use Rattle.words.specs.Fields.{code}
use Rattle.word_writer.proofs.writing.put_slow.Goals as goal

pub put_name-requires : goal.put_name-requires
put_name-requires c =
    let a = c.args in
    let told : word_text a.book.now a.tail.now a.f a.w ≡ matched_text a.book.now a.f a.w =
    name-word-text (book_in a.book.now) a.tail.now a.f a.w (sym c.code.ensures ∙ c.in-22.is) (sym c.is_matched_name.ensures ∙ c.if-is_matched_name.true) in
    record { f_value = c.requires.f_value; w_in_bounds = rw told at c.requires.w_in_bounds }

pub returns-then-is_matched_name : goal.returns-then-is_matched_name
returns-then-is_matched_name c =
    let a = c.args in
    let told : word_text a.book.now a.tail.now a.f a.w ≡ matched_text a.book.now a.f a.w =
    name-word-text (book_in a.book.now) a.tail.now a.f a.w (sym c.code.ensures ∙ c.in-22.is) (sym c.is_matched_name.ensures ∙ c.if-is_matched_name.true) in
    rw told c.put_name.ensures

pub format_rule-next-requires : goal.format_rule-next-requires
format_rule-next-requires c =
    let a = c.args in
    let told : word_text a.book.now a.tail.now a.f a.w ≡ rule_text (book_in a.book.now) (rule_in a.w) a.f ++ behind_text a.w =
    rule-word-text (book_in a.book.now) a.tail.now a.f a.w (sym c.code.ensures ∙ c.in-22.is) in
    record { f_value = c.requires.f_value; f_in_bounds = rw c.rule_in.ensures (omega (arith, rw (told, length-append) at c.requires.w_in_bounds)) }

pub put_behind-requires : goal.put_behind-requires
put_behind-requires c =
    let a = c.args in
    let told : word_text a.book.now a.tail.now a.f a.w ≡ rule_text (book_in a.book.now) (rule_in a.w) a.f ++ behind_text a.w =
    rule-word-text (book_in a.book.now) a.tail.now a.f a.w (sym c.code.ensures ∙ c.in-22.is) in
    let wrote = c.format_rule-next in
    omega (arith, rw (told, length-append, ← c.rule_in.ensures) at c.requires.w_in_bounds, wrote.ensures.end, wrote.auto.out)

pub put_other-requires : goal.put_other-requires
put_other-requires c =
    let a = c.args in
    let told : word_text a.book.now a.tail.now a.f a.w ≡ other_text a.tail.now a.f a.w =
    other_word (book_in a.book.now) a.tail.now a.f a.w c.requires.w_value (λ (e : code a.w ≡ 22). omega arith) in
    record { f_value = c.requires.f_value; w_in_bounds = rw told at c.requires.w_in_bounds }

pub put_other-requires-in_default : goal.put_other-requires-in_default
put_other-requires-in_default c =
    let a = c.args in
    let told : word_text a.book.now a.tail.now a.f a.w ≡ other_text a.tail.now a.f a.w =
    other_word (book_in a.book.now) a.tail.now a.f a.w c.requires.w_value (λ (e : code a.w ≡ 22). omega arith) in
    record { f_value = c.requires.f_value; w_in_bounds = rw told at c.requires.w_in_bounds }

pub returns-else-is_matched_name : goal.returns-else-is_matched_name
returns-else-is_matched_name c =
    let a = c.args in
    let told : word_text a.book.now a.tail.now a.f a.w ≡ rule_text (book_in a.book.now) (rule_in a.w) a.f ++ behind_text a.w =
    rule-word-text (book_in a.book.now) a.tail.now a.f a.w (sym c.code.ensures ∙ c.in-22.is) in
    rw (told, ← c.rule_in.ensures) (laid_then c.format_rule-next.ensures c.put_behind.ensures)

pub returns-in-31 : goal.returns-in-31
returns-in-31 c =
    let a = c.args in
    let told : word_text a.book.now a.tail.now a.f a.w ≡ other_text a.tail.now a.f a.w =
    other_word (book_in a.book.now) a.tail.now a.f a.w c.requires.w_value (λ (e : code a.w ≡ 22). omega arith) in
    rw told c.put_other.ensures

pub returns-in_default : goal.returns-in_default
returns-in_default c =
    let a = c.args in
    let told : word_text a.book.now a.tail.now a.f a.w ≡ other_text a.tail.now a.f a.w =
    other_word (book_in a.book.now) a.tail.now a.f a.w c.requires.w_value (λ (e : code a.w ≡ 22). omega arith) in
    rw told c.put_other-in_default.ensures
