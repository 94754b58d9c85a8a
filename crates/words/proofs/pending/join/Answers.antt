-- Each way that a word goes: into the one before it, as the third of three, or behind one that is final.
use mathlib.Core.List.{List}
use mathlib.Core.Path.{sym, ◌∙◌}
use Prim.Native.Nat.{ℕ, ◌+◌, ◌-◌, ◌≤◌, ◌<◌}
use native.Mathlib.Omega.{arith}
use Rattle.words.proofs.pending.Steps.{joined-byte, joined-date, joined-time, joined-kept, kept-laid, kept-end, kept-fits, byte_fits}
use Rattle.words.specs.Packing.{joined}
use Rattle.words.proofs.pending.join.Goals as goal

-- the byte fits beside the word
joins : (c : goal.Then-joins_byte) → (1 ≤ c.args.w) × (c.args.before.second + (c.args.w - 1) < 18446744073709551616)
joins c = byte_fits c.args.before.second c.args.w (sym c.joins_byte.ensures ∙ c.if-joins_byte.true) (omega arith)

pub overflow_sub-result : goal.overflow_sub-result
overflow_sub-result c = omega (arith, joins c)

pub overflow_add-result : goal.overflow_add-result
overflow_add-result c = omega (arith, joins c)

pub returns-then-joins_byte : goal.returns-then-joins_byte
returns-then-joins_byte c =
    let p = c.args.before in
    let e = sym c.joins_byte.ensures ∙ c.if-joins_byte.true in
    record {
      laid = λ ws. rw (joined-byte p.first p.second c.args.w ws e);
      end = λ ws. rw (joined-byte p.first p.second c.args.w ws e);
    }

pub returns-then-are_three : goal.returns-then-are_three
returns-then-are_three c =
    let p = c.args.before in
    let none = sym c.joins_byte.ensures ∙ c.if-joins_byte.false in
    let e = sym c.are_three.ensures ∙ c.if-are_three.true in
    record {
      laid = λ ws. rw (joined-date p.first p.second c.args.w ws none e, c.three_word.ensures);
      end = λ ws. rw (joined-date p.first p.second c.args.w ws none e, c.three_word.ensures);
    }

pub returns-then-are_three-2 : goal.returns-then-are_three-2
returns-then-are_three-2 c =
    let p = c.args.before in
    let none = sym c.joins_byte.ensures ∙ c.if-joins_byte.false in
    let date = sym c.are_three.ensures ∙ c.if-are_three.false in
    let e = sym c.are_three-2.ensures ∙ c.if-are_three-2.true in
    record {
      laid = λ ws. rw (joined-time p.first p.second c.args.w ws none date e, c.three_word-then-are_three-2.ensures);
      end = λ ws. rw (joined-time p.first p.second c.args.w ws none date e, c.three_word-then-are_three-2.ensures);
    }

pub keep-requires : goal.keep-requires
keep-requires c =
    let p = c.args.before in
    let stays = λ (ws : List ℕ). joined-kept p.first p.second c.args.w ws (sym c.joins_byte.ensures ∙ c.if-joins_byte.false) (sym c.are_three.ensures ∙ c.if-are_three.false) (sym c.are_three-2.ensures ∙ c.if-are_three-2.false) in
    omega (arith, kept-fits p.first (joined p.second c.args.w c.requires.rest), rw (stays c.requires.rest) at c.requires.fits)

pub returns : goal.returns
returns c =
    let p = c.args.before in
    let stays = λ (ws : List ℕ). joined-kept p.first p.second c.args.w ws (sym c.joins_byte.ensures ∙ c.if-joins_byte.false) (sym c.are_three.ensures ∙ c.if-are_three.false) (sym c.are_three-2.ensures ∙ c.if-are_three-2.false) in
    let k = c.keep.ensures in
    record {
      laid = λ ws. rw (stays ws) (kept-laid p.first k (joined p.second c.args.w ws));
      end = λ ws. rw (stays ws) (kept-end p.first k (joined p.second c.args.w ws));
    }
