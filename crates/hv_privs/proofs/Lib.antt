pub mod PrivilegesLemmas
