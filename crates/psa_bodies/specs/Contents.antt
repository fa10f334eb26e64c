-- The definitions of a draft in the order of their contents, and how many formulas are collected before those of each.
-- (This project's own.)
use Rattle.std.specs.Prelude.{◌≡◌, ℕ, List, Some, map, length, slice_get}
use Rattle.std.specs.List.{enumerate_from}
use Rattle.psa_model.specs.declared.draft.Draft.{Draft}
use Rattle.psa_names.specs.Outlines.{Entry, Entries, entries_of}
use Rattle.psa_names.specs.Collected.{collected_in, contents_position, by_contents, collected_before}
use Rattle.psa_bodies.specs.declared.contents.Block.{Block}
use Rattle.psa_bodies.specs.declared.contents.ContentsOrder.{ContentsOrder}

pub record HasContentsOrder (draft : Draft) (order : ContentsOrder) : Type 0 where
  pub before : order.before ≡ map (collected_before (entries_of draft)) (entries_of draft)
  pub sequence : map (λ place. slice_get (entries_of draft) place) order.sequence ≡ map Some (by_contents (entries_of draft))

-- the block of a definition at a place of the draft
abbrev pub block_of : ℕ × Entry → Block
block_of one = record {
  file = (contents_position one.1).file;
  tag = (contents_position one.1).tag;
  place = one.0;
  formulas = length (collected_in one.1.body);
}

abbrev pub blocks_of : Entries → List Block
blocks_of entries = map block_of (enumerate_from 0 entries)

-- the definitions of blocks, and how many formulas each collects
pub record AreBlocksOf (entries all : Entries) (blocks : List Block) : Type 0 where
  pub places : map (λ block. slice_get entries block.place) blocks ≡ map Some all
  pub formulas : map (λ block. block.formulas) blocks ≡ map (λ one. length (collected_in one.body)) all
