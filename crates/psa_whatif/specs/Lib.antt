pub mod Edits
pub mod EditText
pub mod EditedLoads
pub mod WhatIfWords
pub mod WhatIfOutcome
pub mod Examples
