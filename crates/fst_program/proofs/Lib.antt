mod ReadLemmas
mod ProgramLemmas
mod StatusLemmas
mod CommandLemmas
