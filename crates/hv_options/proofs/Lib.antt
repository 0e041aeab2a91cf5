mod CommandLemmas
mod OptionsLemmas
