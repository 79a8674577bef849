-- The answers of a session to a program in another language.
pub mod SessionAnswers
