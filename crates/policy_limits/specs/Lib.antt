pub mod PolicyFaults
