-- What is known of what the C surface answers.
mod Surface
