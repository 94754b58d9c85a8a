-- Tables of samples: a question, and the answer that is expected; and that every one is answered so.
use mathlib.Core.List.{List, map}
use mathlib.Core.Path.{◌≡◌}

pub record Sample (Q A : Type 0) : Type 0 where
  pub question : Q
  pub answer : A

abbrev pub ◌↦'◌ : {Q A : Type 0} → Q → A → Sample Q A
q ↦' a = record { question = q; answer = a }

infix 90 ◌↦'◌
abbrev pub Answered : {Q A : Type 0} → (Q → A) → List (Sample Q A) → Type 0
Answered asked table = map (λ s. asked s.question) table ≡ map (λ s. s.answer) table
