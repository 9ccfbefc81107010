pub mod NewChildren
