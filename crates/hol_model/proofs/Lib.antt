pub mod Terms
pub mod Kernel
pub mod Tests
pub mod Logic
pub mod Logs
pub mod Texts
