pub mod placing
