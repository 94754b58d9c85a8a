-- A byte that stands for itself, where one is there: passed over, or the same one.
use Rattle.std.specs.Prelude.{None}
use mathlib.Core.Bool.{Bool, true, false}
use mathlib.Core.List.{List, [], ◌∷◌}
use mathlib.Core.Logic.{◌⊎◌, inl, inr}
use mathlib.Core.Path.{◌≡◌}
use Prim.Native.Nat.{ℕ, suc, ◌+◌, ◌≤◌, ◌<◌}
use native.Mathlib.Omega.{arith}
use lib.ListN.{length, get_or, drop, length-drop}
use lib.Seq.{drop-cons}
use borrow.Author.Tests.{eq-eqb, ne_eqb}
use Rattle.laws.proofs.Readers.{skip_goes_on, same-goes-on}
use Rattle.meaning.specs.Readers.{got}
use Rattle.meaning.specs.Reading.{literal_read, read_step}
use Rattle.meaning.specs.Writing.{literal}
use Rattle.meaning.specs.declared.Choices.{Choices}
use Rattle.words.specs.Fields.{last_byte}
use Rattle.words.specs.Pieces.{piece_step}
use Rattle.meaning.specs.Names.{Book}
use Rattle.word_reader.proofs.keeping.Moving.{moves-none, moves-to, kept-none, kept-nothing}
use Rattle.word_reader.specs.Quick.{gave_one, Moves, Behind, Passed}

pub byte-passes : (strict : Bool) (b : ℕ) (text : List ℕ) (at : ℕ) → at < length text → (strict ≡ false) ⊎ (get_or text at 0 ≡ b)
    → literal_read strict (b ∷ []) (drop at text) ≡ got 1 None
byte-passes false b text at h e = rw (skip_goes_on 1 (drop at text) (rw length-drop (omega arith)))
byte-passes true b text at h (inl e) = absurd (let z : ◌≡◌ {A = ℕ} 0 1 = cc in omega arith)
byte-passes true b text at h (inr e) = rw (drop-cons text at 0 h, e, same-goes-on (b ∷ []) (drop (suc at) text))

-- as a step
pub moves-byte : (choices : Choices) (book : Book) (current : ℕ) (text : List ℕ) (at next b : ℕ) → next ≡ at + 1 → Passed choices.strict b text at
    → Moves choices book current (literal (b ∷ []) false ∷ []) text at next (gave_one None at next)
unfolding read_step
moves-byte choices book current text at next b e p = moves-to choices book current text at next (literal (b ∷ []) false) (omega (arith, p.0)) e p.1

-- the byte behind all else
pub none-behind : (choices : Choices) (w : ℕ) (text : List ℕ) (at : ℕ) → at ≤ length text → last_byte w ≡ 0 → Behind choices w text at at
none-behind choices w text at h e book current row =
    rw (eq-eqb (last_byte w) 0 e) ([], moves-none choices book current text at h, λ old mask. kept-none)

pub one-behind : (choices : Choices) (w : ℕ) (text : List ℕ) (at next : ℕ) → (last_byte w ≡ 0 → ⊥) → next ≡ at + 1 → Passed choices.strict (last_byte w) text at
    → Behind choices w text at next
unfolding piece_step
one-behind choices w text at next n e p book current row =
    rw (ne_eqb (last_byte w) 0 n) (gave_one None at next, moves-byte choices book current text at next (last_byte w) e p, λ old mask. kept-nothing)
