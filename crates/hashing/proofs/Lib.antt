-- What the proofs of the fingerprint's functions cite: runs over entries, the entries of terms, the stack of entries.
mod RunLaws
mod EntryLaws
mod StackLaws
pub mod ReplyLaws
