pub mod Banks
pub mod Numbers
