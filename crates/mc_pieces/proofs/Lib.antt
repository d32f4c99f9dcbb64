pub mod PartLaws
pub mod ExpressionLaws
pub mod StatementLaws
pub mod TypeLaws
pub mod TextLaws
pub mod TreeLaws
