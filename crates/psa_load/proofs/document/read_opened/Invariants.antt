use Rattle.std.proofs.Common.{◌+◌, ◌≤◌, ◌≡◌}
use Rattle.psa_load.specs.Documents.{HasGot}
use Rattle.psa_load.proofs.document.read_opened.Given as goal

abbrev pub invariant-loop-turn : goal.invariant-loop-turn
invariant-loop-turn g l = record {
  got : HasGot (g.F.Folder.texts l.fn.files) l.name (g.F.Folder.rest l.files) l._turn l.scanner;
  later : g.F.Folder.faults l.fn.files ≤ g.F.Folder.faults l.files;
  counted : g.F.Folder.reads l.files ≤ g.F.Folder.reads l.fn.files + l._turn;
  same_opens : g.F.Folder.opens l.files ≡ g.F.Folder.opens l.fn.files;
  same_texts : g.F.Folder.texts l.files ≡ g.F.Folder.texts l.fn.files;
  same_allows : g.F.Folder.allows l.files ≡ g.F.Folder.allows l.fn.files;
}
