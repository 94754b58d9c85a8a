-- The fixed places, the fraction, the offset and the end, each as the definition has it.
use mathlib.Core.Path.{◌≡◌, sym, ap, ◌∙◌}
use Rattle.std.proofs.Common.{rules, Err}
use Rattle.meaning.specs.StampGrammar.{reads, halts, optional_secfrac, time_offset}
use Rattle.stamps.proofs.grammar.DateTimes.{place-halts, fraction-halts, offset-halts, rest-halts, all_read, fraction_back, fraction-is, zone_back, zone-is}
use Rattle.stamps.specs.Found.{offset_of, scanned_by}
use Rattle.stamps.specs.Shape.{first_wrong}
use Rattle.stamps.proofs.grammar.date_time.Goals as goal

pub returns-then-wrong-ne19 : goal.returns-then-wrong-ne19
returns-then-wrong-ne19 c =
    let w = c.first_wrong-wrong.ensures in
    let s = c.args.text.now in
    rw w (ap scanned_by (sym (place-halts s (λ e. c.if-wrong-ne19.true (w ∙ e)))))

pub returns-in_err-nanos : goal.returns-in_err-nanos
returns-in_err-nanos c =
    let s = c.args.text.now in
    let placed : first_wrong 19 0 0 s ≡ 19 = sym c.first_wrong-wrong.ensures ∙ c.if-wrong-ne19.false in
    let fraction : optional_secfrac s 19 ≡ halts c.in_err-nanos.field-0.0.place = sym (fraction-is _) ∙ ap fraction_back (sym c.optional_secfrac.ensures ∙ c.in_err-nanos.was) in
    let told : c.from_residual.result ≡ Err c.in_err-nanos.field-0.0 = search rules in
    told ∙ ap scanned_by (sym (fraction-halts s placed fraction))

pub returns-in_err-shift : goal.returns-in_err-shift
returns-in_err-shift c =
    let s = c.args.text.now in
    let placed : first_wrong 19 0 0 s ≡ 19 = sym c.first_wrong-wrong.ensures ∙ c.if-wrong-ne19.false in
    let fraction : optional_secfrac s 19 ≡ reads c.in_ok-nanos.nanos c.in_ok-nanos.behind = sym (fraction-is _) ∙ ap fraction_back (sym c.optional_secfrac.ensures ∙ c.in_ok-nanos.was) in
    let offset : time_offset s c.in_ok-nanos.behind ≡ halts c.in_err-shift.field-0.0.place = sym (zone-is _) ∙ ap zone_back (sym c.time_offset.ensures ∙ c.in_err-shift.was) in
    let told : c.from_residual-in_err-shift.result ≡ Err c.in_err-shift.field-0.0 = search rules in
    told ∙ ap scanned_by (sym (offset-halts s placed fraction offset))

pub returns-then-next-text : goal.returns-then-next-text
returns-then-next-text c =
    let s = c.args.text.now in
    let placed : first_wrong 19 0 0 s ≡ 19 = sym c.first_wrong-wrong.ensures ∙ c.if-wrong-ne19.false in
    let fraction : optional_secfrac s 19 ≡ reads c.in_ok-nanos.nanos c.in_ok-nanos.behind = sym (fraction-is _) ∙ ap fraction_back (sym c.optional_secfrac.ensures ∙ c.in_ok-nanos.was) in
    let offset : time_offset s c.in_ok-nanos.behind ≡ reads (offset_of c.in_ok-shift.shift) c.in_ok-shift.next = sym (zone-is _) ∙ ap zone_back (sym c.time_offset.ensures ∙ c.in_ok-shift.was) in
    ap scanned_by (sym (rest-halts s placed fraction offset c.if-next-text.true))

pub returns : goal.returns
returns c =
    let s = c.args.text.now in
    let placed : first_wrong 19 0 0 s ≡ 19 = sym c.first_wrong-wrong.ensures ∙ c.if-wrong-ne19.false in
    let fraction : optional_secfrac s 19 ≡ reads c.in_ok-nanos.nanos c.in_ok-nanos.behind = sym (fraction-is _) ∙ ap fraction_back (sym c.optional_secfrac.ensures ∙ c.in_ok-nanos.was) in
    let offset : time_offset s c.in_ok-nanos.behind ≡ reads (offset_of c.in_ok-shift.shift) c.in_ok-shift.next = sym (zone-is _) ∙ ap zone_back (sym c.time_offset.ensures ∙ c.in_ok-shift.was) in
    rw c.parts_in.ensures (ap scanned_by (sym (all_read s placed fraction offset c.if-next-text.false)))
