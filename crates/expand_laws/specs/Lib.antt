-- The theorems on the retention peaks of a mobility peak.
pub mod ExpandAccount
