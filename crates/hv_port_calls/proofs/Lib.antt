pub mod ChangedLinks
