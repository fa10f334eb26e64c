-- The subsets of a number of members, as numbers: bit i for the member at place i. (Sizes and order are this
-- project's own.)
use Rattle.std.specs.Prelude.{ℕ, List, map}
use Rattle.std.specs.List.{flat_map, range_with_len}
use Rattle.psa_model.specs.declared.model.GroupModel.{GroupModel}
use Rattle.psa_model.specs.Expansion.{choices, sizes_of, subset_number}

-- those of one size, in lexicographic order
abbrev pub subsets_of_size : ℕ → ℕ → List ℕ
subsets_of_size count size = map subset_number (choices size (range_with_len 0 count))

-- those that fail together by the model of a group, by size
abbrev pub subsets_among : GroupModel → ℕ → List ℕ
subsets_among model count = flat_map (subsets_of_size count) (sizes_of model count)
