-- A folder in memory. This project's own.
use Rattle.std.specs.Prelude.{ℕ, List, [], Option, Bool, not, ◌&&◌, is_some, drop, min, length, unwrap_or, if◌then◌else◌, option_and_then, slice_get}
use Rattle.std.specs.Option.{option_map}
use Rattle.psa_ports.specs.Counts.{one_more, is_failing}
use Rattle.psa_ports.specs.Folder.{text_of}

-- what callers see of it: its files; the most bytes that a read gives; the numbers of the calls
-- that fail; what is left of the opened file; and the counts of calls, faults, opens and reads
pub record FolderState : Type 0 where
  pub texts : List (List ℕ × List ℕ)
  pub piece : ℕ
  pub failing : List ℕ
  pub rest : List ℕ
  pub calls : ℕ
  pub faults : ℕ
  pub opens : ℕ
  pub reads : ℕ

-- a folder that nothing was opened in
abbrev pub new_folder : List (List ℕ × List ℕ) → ℕ → List ℕ → FolderState
new_folder texts piece failing = record {
  texts = texts;
  piece = piece;
  failing = failing;
  rest = [];
  calls = 0;
  faults = 0;
  opens = 0;
  reads = 0;
}

-- the bytes of the file at this place, and none where none is opened
abbrev pub bytes_at : List (List ℕ × List ℕ) → Option ℕ → List ℕ
bytes_at texts opened =
    unwrap_or (option_map (λ file. file.1) (option_and_then (slice_get texts) opened)) []

-- the name can be opened now: this call is not one of those that fail, and a file has the name
abbrev pub can_open : FolderState → List ℕ → Bool
can_open folder name =
    not (is_failing folder.failing folder.calls) && is_some (text_of name folder.texts)

-- the folder after a call of open: at the file's first byte, or with nothing to read and a fault more
abbrev pub after_open : FolderState → List ℕ → FolderState
after_open folder name = record folder {
  rest = (if can_open folder name then unwrap_or (text_of name folder.texts) [] else []);
  calls = one_more folder.calls;
  faults = (if can_open folder name then folder.faults else one_more folder.faults);
  opens = one_more folder.opens;
}

-- how many bytes a read into this much room gives
abbrev pub read_count : FolderState → ℕ → ℕ
read_count folder room = min (min (length folder.rest) room) folder.piece

-- the folder after a call of read: past the bytes that it gave, or where it was with a fault more
abbrev pub after_read : FolderState → ℕ → FolderState
after_read folder room = record folder {
  rest = (if is_failing folder.failing folder.calls then folder.rest else drop (read_count folder room) folder.rest);
  calls = one_more folder.calls;
  faults = (if is_failing folder.failing folder.calls then one_more folder.faults else folder.faults);
  reads = one_more folder.reads;
}
