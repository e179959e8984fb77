-- RULES 7.12, 12.8: what the second reader of relative dates answers, with the bound on the number of pairs as a parameter.
-- Assumes nothing.
use Rattle.std.specs.Prelude.{ℕ, ◌≡◌, cond, ◌&&◌, List, ltb, length, Err, Option, Result}
use Rattle.text.specs.Bytes.{ascii}
use Rattle.time.specs.declared.Refusal.TheVariants.{Form}
use Rattle.relative.specs.Relative.{relative_of}
use Rattle.time.specs.declared.Refusal.{Refusal}
use Rattle.time.specs.declared.Time.{Time}

-- the most bytes of a text
abbrev pub max_length : ℕ
max_length = 4096

-- a longer text is 2, after 1; every other text is answered as by the first reader
unfoldable pub turns_of : ℕ → List ℕ → Option Time → Result Time Refusal
turns_of bound s current = cond (ascii s && ltb max_length (length s)) (Err Form) (relative_of bound s current)

-- two calls that take the same arguments: where P holds of these, an answer that meets the contract of one equals any answer that meets
-- the contract of the other. To a proof a contract is a relation, `Post` (RULES 12.5)
module _ {Lifetimes : Type 0} {Arguments Result Exit Exit' : Lifetimes → Type 0} where
  abbrev pub AnswerAlike : ((κ : Lifetimes) → Arguments κ → Type 0) → ((κ : Lifetimes) → Arguments κ → Result κ → Exit κ → Type 0) → ((κ : Lifetimes) → Arguments κ → Result κ → Exit' κ → Type 0) → Type 0
  AnswerAlike P Post Post' = (κ : Lifetimes) (a : Arguments κ) (r s : Result κ) (e : Exit κ) (f : Exit' κ) → P κ a → Post κ a r e → Post' κ a s f → r ≡ s
