-- What a reading answers that has come part of the way: it carries how many pairs were read, whether their units are known, whether
-- the mark was set, and where the pairs lead; the rest of the text has further pairs, and perhaps the mark. Only private contracts
-- cite these definitions.
-- Assumes nothing.
use Rattle.std.specs.Prelude.{ℕ, ◌+◌, ◌≡◌, Bool, ◌&&◌, ◌||◌, List, [], ◌∷◌, length, Err, Ok, Option, Result, Some}
use Rattle.relative.specs.Words.{words_of}
use Rattle.relative.specs.Pairs.{pairs_from, ago_from, known}
use Rattle.relative.specs.Relative.{from, verdict}
use Rattle.relative.specs.declared.pair.Pair.{Pair}
use Rattle.turns.specs.declared.reading.Reading.{Reading}
use Rattle.time.specs.declared.Refusal.{Refusal}
use Rattle.time.specs.declared.Time.{Time}

-- pairs subtracted from the time of an answer, each from where the one before landed. A refusal stays
unfoldable pub subtracted : List Pair → Result Time Refusal → Result Time Refusal
subtracted [] a = a
subtracted (p ∷ ps) (Ok x) = subtracted ps (from (Some x) (p ∷ []))
subtracted (p ∷ ps) (Err r) = Err r

-- the answer of the whole text, if the rest of it has the pairs ps, and the mark exactly if `ago` is true
unfoldable pub read_on : ℕ → Reading → List Pair → Bool → Result Time Refusal
read_on bound r ps ago = verdict bound (r.pairs + length ps) (r.known && known ps || (r.ago || ago)) (subtracted ps r.answer)

-- the answer of the whole text, if the rest of it is s, and `waits` is the count that waits for its unit
abbrev pub read_rest : ℕ → Reading → Option ℕ → List ℕ → Result Time Refusal
read_rest bound r waits s = read_on bound r (pairs_from waits (words_of s)) (ago_from waits (words_of s))

-- the answer of the whole text is f of the rest's pairs and mark, whatever they are
abbrev pub AnswersBy : ℕ → Reading → (List Pair → Bool → Result Time Refusal) → Type 0
AnswersBy bound r f = (ps : List Pair) (ago : Bool) → read_on bound r ps ago ≡ f ps ago
