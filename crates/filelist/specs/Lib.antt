-- The definitions that the contracts of filelist cite.
pub mod FileText
pub mod FileLent
