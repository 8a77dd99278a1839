-- Laws of the bits of a packed file.
mod BitLaws
mod NodeLaws
mod WindowLaws
