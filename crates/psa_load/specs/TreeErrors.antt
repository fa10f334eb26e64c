-- The errors of the checks of trees and of names as one error. This project's own.
use Rattle.psa_elements.specs.declared.error.ReadError.{ReadError}
use Rattle.psa_elements.specs.declared.error.ReadError.TheVariants as read
use Rattle.psa_names.specs.declared.error.CheckError.{CheckError}
use Rattle.psa_names.specs.declared.error.CheckError.TheVariants as check
use Rattle.psa_load.specs.declared.analysis.AnalysisError.{AnalysisError}
use Rattle.psa_load.specs.declared.analysis.AnalysisError.TheVariants.{Fault, Memory}

abbrev pub read_error : ReadError → AnalysisError
read_error (read.Fault found) = Fault found
read_error read.Memory = Memory

abbrev pub check_error : CheckError → AnalysisError
check_error (check.Fault found) = Fault found
check_error check.Memory = Memory
