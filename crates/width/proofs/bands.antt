pub mod Missing
pub mod Rising
