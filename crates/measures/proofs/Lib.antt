-- The laws of weighing parts of terms.
mod SumLaws
