-- What `relative::words::value_of` keeps: the names that are left give what all of them give.
use Rattle.std.proofs.Common.{◌≡◌, map, drop}
use Rattle.relative.specs.Words.{value_among}
use Rattle.relative.proofs.words.value_of.Given as goal

abbrev pub invariant-loop-name : goal.invariant-loop-name
invariant-loop-name g l =
    value_among (map (λ n. (n.0.now, n.1)) (drop l.name-index l.names)) l.word ≡ value_among (map (λ n. (n.0.now, n.1)) l.names) l.word
