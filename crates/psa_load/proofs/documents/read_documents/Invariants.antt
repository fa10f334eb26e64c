use Rattle.std.proofs.Common.{◌+◌, ◌*◌, ◌≤◌, ◌≡◌}
use Rattle.psa_load.specs.Files.{AreRead}
use Rattle.psa_load.proofs.documents.read_documents.Given as goal

abbrev pub invariant-loop-number : goal.invariant-loop-number
invariant-loop-number g l = record {
  read : AreRead l.names (g.F.Folder.texts l.fn.files) l.number l.documents;
  later : g.F.Folder.faults l.fn.files ≤ g.F.Folder.faults l.files;
  opened : g.F.Folder.opens l.files ≡ g.F.Folder.opens l.fn.files + l.number;
  counted : g.F.Folder.reads l.files ≤ g.F.Folder.reads l.fn.files + 67108865 * l.number;
  same_texts : g.F.Folder.texts l.files ≡ g.F.Folder.texts l.fn.files;
  same_allows : g.F.Folder.allows l.files ≡ g.F.Folder.allows l.fn.files;
}
