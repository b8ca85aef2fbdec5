pub mod Exact
pub mod OneJoint
