pub mod Events
pub mod TreeEvents
pub mod ResultLaws
pub mod Named
pub mod PutLaws
pub mod RunLaws
