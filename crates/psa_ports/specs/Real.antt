-- Files of the operating system, and writers of std. This project's own.
use Rattle.std.specs.Prelude.{ℕ, List, [], Option, Some, None, Bool, false, Result, is_ok, if◌then◌else◌}
use Rattle.psa_ports.specs.Counts.{one_more}

-- what callers see of a folder of files: whether one is open; what it has left to give, where its
-- type says so; and the counts of faults, of opens and of reads
pub record FilesState : Type 0 where
  pub is_open : Bool
  pub left : Option (List ℕ)
  pub faults : ℕ
  pub opens : ℕ
  pub reads : ℕ

-- what an opened file has left to give, where that is known: nothing where none is open
abbrev pub left_of : {F : Type 0} → (F → Option (List ℕ)) → Option F → Option (List ℕ)
left_of remaining None = Some []
left_of remaining (Some file) = remaining file

-- a folder that nothing was opened in
abbrev pub new_files : FilesState
new_files = record { is_open = false; left = Some []; faults = 0; opens = 0; reads = 0 }

-- what callers see of a sink over a writer: the bytes that the writer holds, where its type says
-- so; and the count of faults
pub record WriterState : Type 0 where
  pub contents : Option (List ℕ)
  pub faults : ℕ

-- the count of faults after a call: a failed one adds one
abbrev pub faults_after : {T E : Type 0} → ℕ → Result T E → ℕ
faults_after faults result = if is_ok result then faults else one_more faults
