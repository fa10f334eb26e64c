use Rattle.std.proofs.Common.{◌≡◌, map, take}
use Rattle.psa_words.proofs.settings.copied.Given as goal

abbrev pub invariant-loop-name : goal.invariant-loop-name
invariant-loop-name l = l.made ≡ map (λ s. s.now) (take l.name-index l.names)
