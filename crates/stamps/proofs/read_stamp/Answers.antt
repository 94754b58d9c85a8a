-- The grammar, then the checks of what it says.
use mathlib.Core.Path.{◌≡◌, refl, sym, ◌∙◌}
use Rattle.std.proofs.Common.{rules}
use Rattle.std.specs.Prelude.{Ok}
use Rattle.std.proofs.lemmas.Result.{err_from_is_err_and}
use Rattle.laws.proofs.StampGrammar.{read_small}
use Rattle.laws.proofs.Told.{by_whole}
use Rattle.meaning.specs.Answers.{text_check}
use Rattle.meaning.specs.StampGrammar.{date_time, whole}
use Rattle.meaning.specs.Stamps.{read_stamp}
use Rattle.meaning.specs.declared.Refusal.TheVariants.{NotStamp}
use Rattle.stamps.specs.Found.{date_time_of}
use Rattle.stamps.proofs.Answers.{turned-error, scan-halted, scan-read}
use Rattle.stamps.proofs.read_stamp.Goals as goal

pub returns-in_err-parts : goal.returns-in_err-parts
unfolding read_stamp
returns-in_err-parts c =
    let s = c.args.text.now in
    let fine : text_check s ≡ Ok tt = sym c.text_check.ensures ∙ c.in_ok-text_check.was in
    let refused = err_from_is_err_and c.from_residual-in_err-parts.result c.from_residual-in_err-parts.ensures.1 in
    let error = turned-error c.date_time.result _ _ c.map_err.ensures.cases c.in_err-parts.was in
    let place : c.in_err-parts.field-0.0 ≡ NotStamp error.0.place = search rules in
    let scanned = scan-halted (whole date_time s) (sym c.date_time.ensures ∙ error.1) in
    rw (refused.1, refused.2, place, fine, scanned) (by_whole refl)

pub accept-requires : goal.accept-requires
accept-requires c =
    let s = c.args.text.now in
    let read : c.date_time.result ≡ Ok c.in_ok-parts.parts = search rules in
    let scanned = scan-read (whole date_time s) (sym c.date_time.ensures ∙ read) in
    let small = read_small s (date_time_of c.in_ok-parts.parts) scanned.0 scanned.1 in
    (small.year, small.nanos)

pub returns : goal.returns
unfolding read_stamp
returns c =
    let s = c.args.text.now in
    let fine : text_check s ≡ Ok tt = sym c.text_check.ensures ∙ c.in_ok-text_check.was in
    let read : c.date_time.result ≡ Ok c.in_ok-parts.parts = search rules in
    let scanned = scan-read (whole date_time s) (sym c.date_time.ensures ∙ read) in
    rw (fine, scanned.1) (by_whole c.accept.ensures)
