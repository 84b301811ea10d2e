pub mod renumbering
pub mod kept_certificates
pub mod kept_scripts
pub mod walks
