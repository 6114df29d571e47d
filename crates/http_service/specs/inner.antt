pub mod AppendedAnswers
