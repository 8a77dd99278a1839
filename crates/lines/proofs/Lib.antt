-- What the proofs of the lines cite.
mod LineLaws
