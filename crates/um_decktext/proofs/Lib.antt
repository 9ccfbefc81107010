pub mod FirstBroken
