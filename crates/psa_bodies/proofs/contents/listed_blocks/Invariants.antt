use Rattle.std.proofs.Common.{◌≡◌, take}
use Rattle.psa_names.specs.Outlines.{entries_of}
use Rattle.psa_bodies.specs.Contents.{blocks_of}
use Rattle.psa_bodies.proofs.contents.listed_blocks.Given as goal

abbrev pub invariant-loop-place : goal.invariant-loop-place
invariant-loop-place l = l.blocks.items ≡ blocks_of (take l.place (entries_of l.draft))
