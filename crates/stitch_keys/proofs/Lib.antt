pub mod Laws
pub mod KeysLaws
