-- What the verdict of a header means, in the terms of its tokens and statements.
pub mod TokenList
pub mod Grammar
pub mod Faults
pub mod Judgement
