-- The texts of parts concatenate: a text is what its first parts write and then what the others write, so each part's own
-- text starts where `start_of` says, before what the parts behind it write.
use mathlib.Core.List.{List, [], ◌∷◌, ◌++◌, append_assoc}
use mathlib.Core.Path.{◌≡◌, refl, ap, ◌∙◌}
use Prim.Native.Nat.{ℕ, suc, ◌<◌}
use lib.ListN.{length, take, drop}
use lib.Seq.{drop-append_seam, split_at}
use Rattle.meaning.specs.Names.{Book}
use Rattle.meaning.specs.Trust.{part_at, start_of}
use Rattle.meaning.specs.Writing.{Step, step_text, texts}
use Rattle.meaning.specs.declared.Fields.{Fields}

module _ (book : Book) (f : Fields) where
  pub texts-join : (a b : List Step) → texts book f (a ++ b) ≡ texts book f a ++ texts book f b
  unfolding texts
  texts-join [] b = refl
  texts-join (s ∷ a) b = rw (texts-join a b, append_assoc)

  -- from where the text of part i starts: that text, and what the parts behind it write
  pub text-from : (ss : List Step) (i : ℕ) → i < length ss
      → drop (start_of book f ss i) (texts book f ss) ≡ step_text book f (part_at ss i) ++ texts book f (drop (suc i) ss)
  unfolding start_of texts
  text-from ss i h =
      let before = texts book f (take i ss) in
      ap (λ (l : List Step). drop (length before) (texts book f l)) (split_at ss i _ h)
      ∙ ap (drop (length before)) (texts-join (take i ss) (part_at ss i ∷ drop (suc i) ss))
      ∙ drop-append_seam before (step_text book f (part_at ss i) ++ texts book f (drop (suc i) ss))
