-- What the boundary's own functions ask of a reply.
pub mod Numbers
