pub mod Tables
pub mod HypervisorForms
