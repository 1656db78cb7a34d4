-- signals among parts, and lines one after another
pub mod SignalCodes
pub mod DeclarationsLaws
