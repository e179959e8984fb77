-- A message that is put together step by step.
-- Assumes nothing.
use Rattle.std.proofs.Common.{◌≡◌, ℕ, ◌+◌, ◌<◌, List, ◌++◌, Bor, None, Some, get_or, length, take, ap, ◌∙◌, append_assoc}
use Rattle.std.specs.declared.option.Option.{Option}
use Rattle.std.specs.Io.KnownBytes.{Appends}
use native.Mathlib.Omega.{arith}
use Rattle.std.proofs.lemmas.Grind.{common_steps}
use Rattle.std.proofs.lemmas.List.{take_more}
use Rattle.text.specs.Quote.{bytes}
use Rattle.streams.specs.Names.{message_of}

-- known bytes that grew by s and then by t have grown by both
pub Appends-trans : (a b c : Option (List ℕ)) (s t : List ℕ) → Appends a b s → Appends b c t → Appends a c (s ++ t)
Appends-trans None b c s t p q = tt
Appends-trans (Some x) None c s t p q = absurd p
Appends-trans (Some x) (Some y) None s t p q = absurd q
Appends-trans (Some x) (Some y) (Some z) s t p q = q ∙ ap (λ l. l ++ t) p ∙ append_assoc x s t

-- the start of a message, which has none of its parts yet
pub message_of-none : (name : List ℕ) (parts : List (Bor (List ℕ))) → message_of name (take 0 parts) ≡ name ++ bytes ": "
message_of-none name parts = grind (arith, common_steps)

pub message_of-more : (name : List ℕ) (parts : List (Bor (List ℕ))) (i : ℕ) (d : Bor (List ℕ)) → i < length parts → message_of name (take (i + 1) parts) ≡ message_of name (take i parts) ++ (get_or parts i d).now
message_of-more name parts i d inside = let more = take_more parts i d inside in grind (arith, common_steps)
