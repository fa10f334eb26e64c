use Rattle.std.proofs.Common.{◌≡◌, [], map, take}
use Rattle.std.specs.Option.{option_map}
use Rattle.psa_spaces.specs.Addresses.{Address, place_of}
use Rattle.psa_names.specs.Outlines.{entry_of}
use Rattle.psa_names.specs.PlacedFaults.{earliest}
use Rattle.psa_lookup.specs.Keys.{first_with}
use Rattle.psa_lookup.specs.Repeats.{repeats_from}
use Rattle.psa_lookup.specs.Sooner.{placed_fault}
use Rattle.psa_lookup.specs.States.{first_spot}
use Rattle.psa_lookup.proofs.duplicates.note_all.Given as goal

abbrev pub invariant-loop-place : goal.invariant-loop-place
invariant-loop-place l = record {
  places : (address : Address) → place_of l.places address ≡ first_with l.numbered.containers (map entry_of (take l.place l.definitions)) address;
  first : option_map placed_fault l.first ≡ earliest (repeats_from l.numbered.containers (first_spot l.least) [] (map entry_of (take l.place l.definitions)));
}
